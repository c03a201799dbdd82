-- A board that was opened from a file.
use Rattle.std.proofs.Common.{◌≡◌, ◌∙◌, ℕ, List, Ok, sym, ap, subst}
use Rattle.envy_base.specs.State.{Notes, State}
use Rattle.envy_base.specs.declared.shape.Shape.{Shape}
use Rattle.envy_disk.specs.Disk.{SyncsChart}
use Rattle.envy_journal.specs.Content.{Content, content_of, holds}
use Rattle.envy_journal.specs.Reading.{operations}
use Rattle.envy_synced.specs.Disk.{IsBefore, IsLast, Reopens}
use Rattle.envy_soundness.specs.Sound.{IsSound, Sound}
use Rattle.envy_soundness.specs.Words.{durable, durable_word, words}
use Rattle.envy_map.specs.Fields.{Chart, Fields, chart, map_fields}
use Rattle.envy_memory.specs.Calls.{Works}

-- steps that sync nothing leave the last sync the last
pub last_stays : (was old new : Chart) (k j : ℕ) → Works k j old new → IsLast was old → IsLast was new
last_stays was old new k j works last = record { shape = last.shape ∙ sym works.shape; sync = ap (λ (n : Notes). n.last) works.counted.notes ∙ last.sync }

-- and the one before it
pub before_stays : (was old new : Chart) (k j : ℕ) → Works k j old new → IsBefore was old → IsBefore was new
before_stays was old new k j works before = record { shape = before.shape ∙ sym works.shape; sync = ap (λ (n : Notes). n.before) works.counted.notes ∙ before.sync }

-- a further sync makes the last the one before
pub last_before : (was old new : Chart) → SyncsChart {T = Unit {0}} old (Ok tt) new → IsLast was old → IsBefore was new
last_before was old new (on, sync, is) last = record {
  shape = last.shape ∙ sym (ap (λ (c : Chart). c.shape) is);
  sync = ap (λ (c : Chart). c.notes.before) is ∙ last.sync;
}

module _ (was : Chart) (s : State) (file : List ℕ) (opens : Reopens was file) (shape : s.shape ≡ was.shape) (content : content_of s ≡ holds s.shape (operations file)) where
  abbrev x : Content
  x = holds was.shape (operations file)

  same : content_of s ≡ x
  same = content ∙ ap (λ (sh : Shape). holds sh (operations file)) shape

  -- a board that reopens has the fields that were synced,
  pub same_fields : (chart s).fields ≡ was.fields
  same_fields = ap (λ (sh : Shape). map_fields sh s.sram) shape ∙ ap (λ (y : Content). map_fields was.shape y.sram) same ∙ opens.fields

  -- the flash,
  pub same_flash : s.flash ≡ was.flash
  same_flash = ap (λ (y : Content). y.flash) same ∙ opens.flash

  -- the words,
  pub same_words : durable (chart s) ≡ durable was
  same_words =
      ap (λ (sh : Shape). words sh.pages (durable_word (chart s).fields s.flash)) shape
      ∙ ap (λ (f : Fields). words was.shape.pages (durable_word f s.flash)) same_fields
      ∙ ap (λ (l : List (List ℕ)). words was.shape.pages (durable_word was.fields l)) same_flash

  -- and is as sound
  pub same_sound : IsSound was → IsSound (chart s)
  same_sound sound =
      subst (λ (sh : Shape). Sound sh (chart s).fields s.flash) (sym shape)
      (subst (λ (f : Fields). Sound was.shape f s.flash) (sym same_fields) (subst (λ (l : List (List ℕ)). Sound was.shape was.fields l) (sym same_flash) sound))
