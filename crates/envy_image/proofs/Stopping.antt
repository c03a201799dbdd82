-- Installing that stops in one of its parts, and installing done.
use Rattle.std.proofs.Common.{◌≡◌, ℕ, ◌+◌, ◌*◌, ◌<◌, ◌≤◌, List, ◌++◌, length, get_or, sym, ◌∙◌, ap, subst, arith, length-append}
use Rattle.std.specs.Prelude.{Result, Ok, Err}
use Rattle.std.proofs.lemmas.List.{take_all}
use Rattle.envy_base.specs.Map.{words_of}
use Rattle.envy_base.specs.State.{State, IsBoard}
use Rattle.envy_io.specs.Streams.{Feed}
use Rattle.envy_io.specs.Taking.{Taking}
use Rattle.envy_image.specs.Faults.{in_fault}
use Rattle.envy_image.specs.Image.{rows_bytes, words_bytes}
use Rattle.envy_image.specs.Reading.{Consumes, Ends, Stops}
use Rattle.envy_image.specs.Installing.{IsWithin, HasReadHead, Goes, StopsInBody, StopsAs, Installs, Installed, Blanked, Programmed, Filled, FillsWords, body_size, count_after}
use Rattle.envy_image.specs.declared.installation.InFault.{InFault}
use Rattle.envy_image.specs.declared.installation.InFault.TheVariants.{Short, Upset, Failed, Spent}
use Rattle.envy_image.specs.declared.reader.Stop.{Stop}
use Rattle.envy_image.specs.declared.reader.Stop.TheVariants.{Short as StopShort, Failed as StopFailed, Spent as StopSpent}
use Rattle.envy_image.proofs.Consuming.{consumes-both, ends-later, stops-later}
use Rattle.envy_image.proofs.Upsetting.{goes-both, upsets-later}
use Rattle.envy_image.proofs.Blanking.{blanked-goes}
use Rattle.envy_image.proofs.Programming.{programmed-goes, filled-goes}

pub within-head : (sh : _) (t : Taking) (feed : Feed) → HasReadHead sh t feed → IsWithin t
within-head sh t feed h = record { within = h.head.draws.within; below = h.head.draws.below }

-- what stops a piece stops the image
pub stops-as : (stop : Stop) (size : ℕ) (old new : State) (was now : Taking) (from to : Feed) → StopsInBody stop size old was from new now to → StopsAs (in_fault stop) size old was from new now to
stops-as StopShort size old new was now from to s = s
stops-as StopFailed size old new was now from to s = s
stops-as StopSpent size old new was now from to s = s

-- the bytes stop behind these
pub stopped : (stop : Stop) (size : ℕ) (old new : State) (was then now : Taking) (from feed to : Feed) (a b : List ℕ) → Goes old new → Consumes was from a then feed → length a + length b < size → Ends then feed b now to → Stops stop now feed to → StopsAs (in_fault stop) size old was from new now to
stopped stop size old new was then now from feed to a b goes first few ends stops =
    stops-as stop size old new was now from to (record {
      goes = goes;
      bytes = a ++ b;
      few = omega (arith, length-append a b);
      ends = ends-later was then now from feed to a b first ends;
      stops = stops-later stop now from feed to first.draws.faults stops;
    })

-- a later part stopped
module _ (small size : ℕ) (old mid new : State) (was then now : Taking) (from feed to : Feed) (a : List ℕ) (goes : Goes old mid) (first : Consumes was from a then feed) (fits : length a + small ≤ size) where
  stop-later : (stop : Stop) → StopsInBody stop small mid then feed new now to → StopsInBody stop size old was from new now to
  stop-later stop s = record {
    goes = goes-both old mid new goes s.goes;
    bytes = a ++ s.bytes;
    few = let few = s.few in omega (arith, length-append a s.bytes);
    ends = ends-later was then now from feed to a s.bytes first s.ends;
    stops = stops-later stop now from feed to first.draws.faults s.stops;
  }

  -- a fault in a later part is one of the whole
  pub part-stops : (fault : InFault) → StopsAs fault small mid then feed new now to → StopsAs fault size old was from new now to
  part-stops Short s = stop-later StopShort s
  part-stops Failed s = stop-later StopFailed s
  part-stops Spent s = stop-later StopSpent s
  part-stops Upset s = record {
    upset = upsets-later old mid new goes s.upset;
    bytes = a ++ s.bytes;
    few = let few = s.few in omega (arith, length-append a s.bytes);
    read = consumes-both was then now from feed to a s.bytes first s.read;
  }

-- all parts are done
module _ (old first second new : State) (was then now : Taking) (from feed to : Feed) (law : IsBoard old) (b : Blanked old.shape.segments old first) (p : Programmed (length first.flash) first was from second then feed) where
  -- all rows are read,
  pub rows-read : Consumes was from (rows_bytes second.flash) then feed
  rows-read = let long = p.long in subst (λ (rows : List (List ℕ)). Consumes was from (rows_bytes rows) then feed) (take_all (length first.flash) second.flash (omega arith)) p.bytes

  -- as many as there are,
  pub rows-long : length first.flash ≡ old.shape.segments * old.shape.rows
  rows-long = b.long ∙ law.rows

  -- of 256 bytes each
  pub rows-size : length (rows_bytes second.flash) ≡ 256 * (old.shape.segments * old.shape.rows)
  rows-size = let long = p.long in ap (λ (rows : List (List ℕ)). length (rows_bytes rows)) (sym (take_all (length first.flash) second.flash (omega arith))) ∙ p.size ∙ ap (λ (n : ℕ). 256 * n) rows-long

  pub sram-long : length second.sram ≡ words_of old.shape
  sram-long = ap (λ (s : State). length s.sram) p.same ∙ (ap (λ (s : State). length s.sram) b.same ∙ law.sram)

  -- rows and words keep power on and the sizes
  pub both-go : Goes old second
  both-go = goes-both old first second (blanked-goes old.shape.segments old first b) (programmed-goes (length first.flash) first second was then from feed p)

  -- behind all words the image is installed
  pub installed : Filled (length second.sram) second then feed new now to → Installed old was from new now to
  installed f = record {
    goes = goes-both old second new both-go (filled-goes (length second.sram) second new then now feed to f);
    bytes = consumes-both was then now from feed to (rows_bytes new.flash) (words_bytes new.sram)
        (subst (λ (rows : List (List ℕ)). Consumes was from (rows_bytes rows) then feed) (sym (ap (λ (s : State). s.flash) f.same)) rows-read)
        (let long = f.long in subst (λ (words : List ℕ). Consumes then feed (words_bytes words) now to) (take_all (length second.sram) new.sram (omega arith)) f.bytes);
    begun = ap (λ (s : State). s.begun) f.same ∙ (p.begun ∙ (ap (λ (n : ℕ). count_after n first.begun) rows-long ∙ ap (λ (s : State). count_after (old.shape.segments * old.shape.rows) s.begun) b.same));
    erases = λ e lt. ap (λ (s : State). get_or s.erases e 0) f.same ∙ (ap (λ (s : State). get_or s.erases e 0) p.same ∙ b.once e lt);
  }

  -- installing ends as filling SRAM does
  pub installs-last : (result : Result Unit InFault) → FillsWords second then feed result new now to → Installs old was from result new now to
  installs-last (Ok done) f = installed f
  installs-last (Err fault) stops =
      let rows = rows-size in
      let words = sram-long in
      part-stops (8 * length second.sram) (body_size old.shape) old second new was then now from feed to (rows_bytes second.flash) both-go rows-read (omega arith) fault stops
