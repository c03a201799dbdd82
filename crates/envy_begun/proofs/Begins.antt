-- A memory that was just made, once it is on the disk.
use Rattle.std.proofs.Common.{◌≡◌, inl, inr, ℕ, false, refl, sym, ◌∙◌, List, ap, subst}
use Rattle.std.specs.Prelude.{Ok, Err}
use Rattle.envy_base.specs.State.{SyncNote}
use Rattle.envy_array.specs.Array.{Array, zeros}
use Rattle.envy_base.specs.Shape.{version_of}
use Rattle.envy_base.specs.declared.board.Off.{Off}
use Rattle.envy_begun.specs.Beginning.{HasBegun}
use Rattle.envy_begun.specs.Plans.{BeginsOn, ComesFrom}
use Rattle.envy_begun.specs.declared.file_contents.FileContents.{FileContents}
use Rattle.envy_begun.proofs.Opening.{IsGood}
use Rattle.envy_disk.specs.Disk.{SyncsChart, with_sync}
use Rattle.envy_synced.specs.Disk.{IsSynced}
use Rattle.envy_soundness.specs.Formatting.{IsEmpty}
use Rattle.envy_meaning.specs.Stands.{Holds, Stands}
use Rattle.envy_soundness.specs.Words.{durable}
use Rattle.envy_map.specs.Fields.{Chart}
use Rattle.envy_memory.specs.Formats.{IsFresh, IsStarted}
use Rattle.envy_memory.specs.Picture.{Picture}
use Rattle.envy_policy.specs.declared.setup.Setup.{Setup}

-- a board behind one sync more

module _ (c : Chart) (sync : SyncNote) where
  abbrev told : Chart
  told = with_sync c sync

  told-holds : (m : Array) → Holds c m → Holds told m
  told-holds m h = record { magic = h.magic; version = h.version; sound = h.sound; array = h.array; shadows = h.shadows; live = h.live; durable = h.durable; slots = h.slots; owners = h.owners }

  pub told-stands : (m : Array) → Stands c m → Stands told m
  told-stands m s = record { on = s.on; holds = told-holds m s.holds }

  told-empty : IsEmpty (version_of c.shape) c → IsEmpty (version_of c.shape) told
  told-empty e = record { magic = e.magic; version_is = e.version_is; sound = e.sound; live_zeros = e.live_zeros; durable_zeros = e.durable_zeros; job = e.job; slots = e.slots; places = e.places; undos = e.undos; wears = e.wears; fills = e.fills; few = e.few; positions = e.positions }

  pub told-fresh : IsFresh c → IsFresh told
  told-fresh f = record { stands = told-stands (zeros c.shape.pages c.shape.shadows) f.stands; empty = told-empty f.empty }

-- a sync leaves a fresh board fresh
pub still-fresh : (old new : Chart) → SyncsChart {T = Unit {0}} old (Ok tt) new → IsFresh old → IsFresh new
still-fresh old new (on, sync, is) f = subst (λ (c : Chart). IsFresh c) (sym is) (told-fresh old sync f)

-- a board that is on the disk as it is
pub begins-as-it-is : (holding : FileContents) (file : List ℕ) (board : Chart) → IsSynced board → ComesFrom holding file board board → BeginsOn holding file board
begins-as-it-is holding file board synced comes = record { was = board; synced = synced; last = record { shape = refl; sync = refl }; comes = comes }

pub err-off : (old new : Chart) (off : Off) → SyncsChart {T = Unit {0}} old (Err off) new → new.on ≡ false
err-off old new off (inl (dark, is)) = ap (λ (c : Chart). c.on) is ∙ dark
err-off old new off (inr (on, is)) = ap (λ (c : Chart). c.on) is

pub new-begun : (setup : Setup) (array : Array) (old new : Picture) → IsSynced new.chart → SyncsChart {T = Unit {0}} old.chart (Ok tt) new.chart → new ≡ record old { chart = new.chart } → Stands old.chart array → IsStarted setup old → old.chart.shape ≡ setup.shape → HasBegun setup array new
new-begun setup array old new good (on, sync, is) kept stood b shape =
    let told = with_sync old.chart sync in
    let same : new ≡ record old { chart = told } = kept ∙ ap (λ (c : Chart). record old { chart = c }) is in
    let sound = subst (λ (p : Picture). IsGood p.chart) (sym same) (record { magic = Holds.magic stood.holds; version = Holds.version stood.holds; sound = Holds.sound stood.holds }) in
    record {
      was = new.chart;
      synced = good;
      last = record { shape = refl; sync = refl };
      magic = IsGood.magic sound;
      version = IsGood.version sound;
      sound = IsGood.sound sound;
      words = ap (λ (p : Picture). durable p.chart) same ∙ Holds.durable stood.holds;
      stands = subst (λ (p : Picture). Stands p.chart array) (sym same) (told-stands old.chart sync array stood);
      begins = subst (λ (p : Picture). IsStarted setup p) (sym same) (record { counts = b.counts; since = b.since; entries = b.entries; chooser = b.chooser; stages = b.stages; moves = b.moves; held = b.held; owners = b.owners; limit = b.limit; mark = b.mark });
      shape = ap (λ (p : Picture). p.chart.shape) same ∙ shape;
    }
