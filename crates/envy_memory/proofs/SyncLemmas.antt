-- A board that was brought to a disk is a memory's still.
use Rattle.std.specs.Prelude.{Result, IsTrue}
use Rattle.std.proofs.Common.{◌≡◌, inl, inr, ℕ, Ok, Err, false, sym, ◌∙◌, ap, subst}
use Rattle.std.proofs.lemmas.Bool.{false≢true}
use Rattle.envy_base.specs.declared.board.Off.{Off}
use Rattle.envy_base.specs.State.{State, SyncNote}
use Rattle.envy_disk.specs.Disk.{Syncs, SyncsChart, with_sync}
use Rattle.envy_engine.specs.declared.parts.Parts.{Parts}
use Rattle.envy_map.specs.Fields.{Chart, chart, failed}
use Rattle.envy_memory.specs.Opened.{HasOpenFrom}
use Rattle.envy_memory.specs.Picture.{IsMemory}
use Rattle.envy_txn.specs.Owners.{Ownership}
use Rattle.envy_wear.specs.Swaps.{IsQuiet}

pub synced_chart : {T : Type 0} (old new : State) (r : Result T Off) → Syncs old r new → SyncsChart (chart old) r (chart new)
synced_chart old new (Ok done) (on, sync, is) = (on, sync, ap chart is)
synced_chart old new (Err off) (inl (dark, is)) = inl (dark, ap chart is)
synced_chart old new (Err off) (inr (on, is)) = inr (on, ap chart is)

-- and SRAM stays
pub synced_sram : {T : Type 0} (old new : State) (r : Result T Off) → Syncs old r new → new.sram ≡ old.sram
synced_sram old new (Ok done) (on, sync, is) = ap (λ (s : State). s.sram) is
synced_sram old new (Err off) (inl (dark, is)) = ap (λ (s : State). s.sram) is
synced_sram old new (Err off) (inr (on, is)) = ap (λ (s : State). s.sram) is

module _ (c : Chart) (x : Parts) (o : Ownership) (limit mark : ℕ) (is : IsMemory c x o limit mark) where
  with_sync_memory : (sync : SyncNote) → IsMemory (with_sync c sync) x o limit mark
  with_sync_memory sync = record { magic = is.magic; version = is.version; sound = is.sound; fits = is.fits; shadows = is.shadows; some = is.some; some_limit = is.some_limit; agrees = is.agrees; owned = is.owned; settled = is.settled }

  failed_memory : IsMemory (failed c) x o limit mark
  failed_memory = record {
    magic = is.magic;
    version = is.version;
    sound = is.sound;
    fits = is.fits;
    shadows = is.shadows;
    some = is.some;
    some_limit = is.some_limit;
    agrees = λ on. absurd (false≢true on);
    owned = λ on. absurd (false≢true on);
    settled = λ on. absurd (false≢true on);
  }

  pub synced_memory : {T : Type 0} (new : Chart) (r : Result T Off) → SyncsChart c r new → IsMemory new x o limit mark
  synced_memory new (Ok done) (on, sync, same) = subst (λ (d : Chart). IsMemory d x o limit mark) (sym same) (with_sync_memory sync)
  synced_memory new (Err off) (inl (dark, same)) = subst (λ (d : Chart). IsMemory d x o limit mark) (sym same) is
  synced_memory new (Err off) (inr (on, same)) = subst (λ (d : Chart). IsMemory d x o limit mark) (sym same) failed_memory

-- and as quiet
pub synced_quiet : (c : Chart) (x : Parts) (limit quiet : ℕ) → (IsTrue c.on → IsQuiet c.shape c.fields limit x.reloc.since quiet) → (new : Chart) {T : Type 0} (r : Result T Off) → SyncsChart c r new → IsTrue new.on → IsQuiet new.shape new.fields limit x.reloc.since quiet
synced_quiet c x limit quiet was new (Ok done) (on, sync, same) lit = subst (λ (d : Chart). IsQuiet d.shape d.fields limit x.reloc.since quiet) (sym same) (was on)
synced_quiet c x limit quiet was new (Err off) (inl (dark, same)) lit = subst (λ (d : Chart). IsTrue d.on → IsQuiet d.shape d.fields limit x.reloc.since quiet) (sym same) was lit
synced_quiet c x limit quiet was new (Err off) (inr (on, same)) lit = absurd (false≢true (sym (ap (λ (d : Chart). d.on) same) ∙ lit))

-- and the slots stay closed
pub synced_shut : (c : Chart) (k : ℕ) → (IsTrue c.on → HasOpenFrom k c false) → (new : Chart) {T : Type 0} (r : Result T Off) → SyncsChart c r new → IsTrue new.on → HasOpenFrom k new false
synced_shut c k was new (Ok done) (on, sync, same) lit = subst (λ (d : Chart). HasOpenFrom k d false) (sym same) (was on)
synced_shut c k was new (Err off) (inl (dark, same)) lit = subst (λ (d : Chart). IsTrue d.on → HasOpenFrom k d false) (sym same) was lit
synced_shut c k was new (Err off) (inr (on, same)) lit = absurd (false≢true (sym (ap (λ (d : Chart). d.on) same) ∙ lit))
