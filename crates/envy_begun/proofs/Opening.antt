-- What a file opens as that was a board behind a sync.
use Rattle.std.proofs.Common.{◌≡◌, ◌∙◌, ◌≤◌, ℕ, List, length, take, ap, arith, length-take}
use Rattle.envy_base.specs.Shape.{version_of}
use Rattle.envy_base.specs.declared.shape.Shape.{Shape}
use Rattle.envy_journal.specs.Head.{HasHead}
use Rattle.envy_begun.specs.Opens.{OpensAs}
use Rattle.envy_synced.specs.Disk.{Reopens}
use Rattle.envy_soundness.specs.Sound.{IsSound}
use Rattle.envy_soundness.specs.Words.{durable}
use Rattle.envy_map.specs.Codes.{the_magic}
use Rattle.envy_map.specs.Fields.{Chart, Fields}
use Rattle.envy_synced.proofs.Reopened.{same_fields, same_sound, same_words}

-- formatted in the newest version of its shape, and sound
pub record IsGood (c : Chart) : Type 0 where
  pub magic : c.fields.magic ≡ the_magic
  pub version : c.fields.version ≡ version_of c.shape
  pub sound : IsSound c

pub opens-as : (was : Chart) (file : List ℕ) → IsGood was → Reopens was file → OpensAs was.shape (durable was) file
opens-as was file good opens = record {
  head = opens.head;
  finds = λ s shape content. same_words was s file opens shape content;
  magic = λ s shape content. ap (λ (f : Fields). f.magic) (same_fields was s file opens shape content) ∙ good.magic;
  version = λ s shape content. ap (λ (f : Fields). f.version) (same_fields was s file opens shape content) ∙ good.version;
  sound = λ s shape content. same_sound was s file opens shape content good.sound;
  ends = opens.ends;
}

-- a file that begins with a head is at least as long
pub long_head : (sh : Shape) (bytes : List ℕ) → HasHead sh bytes → 33 ≤ length bytes
long_head sh bytes head =
    let long : length (take 33 bytes) ≡ 33 = ap length head.begins in
    omega (arith, long, length-take {A = ℕ})
