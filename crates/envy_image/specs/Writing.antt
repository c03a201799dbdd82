-- What writing an image does.
use Rattle.std.specs.Prelude.{◌≡◌, Bool, false, IsTrue, List, ℕ, take, Result, Ok, Err}
use Rattle.envy_io.specs.declared.source.Failed.{Failed as NoWrite}
use Rattle.envy_io.specs.Streams.{Drain, WritesAll}
use Rattle.envy_image.specs.Image.{words_bytes}
use Rattle.envy_image.specs.declared.writer.OutFault.{OutFault}
use Rattle.envy_image.specs.declared.writer.OutFault.TheVariants.{Off, Failed}

-- bytes are written whole, or a front of them where the sink failed; nothing where power is off
abbrev pub WritesOut : Bool → Drain → List ℕ → Result Unit OutFault → Drain → Type 0
WritesOut on old bytes (Ok done) new = IsTrue on × WritesAll old bytes (Ok done) new
WritesOut on old bytes (Err Off) new = (on ≡ false) × (new ≡ old)
WritesOut on old bytes (Err Failed) new = IsTrue on × (failed : NoWrite) × WritesAll old bytes (Err failed) new

-- the first of these words are written, or a front of the bytes of all
abbrev pub WritesFirst : ℕ → Bool → Drain → List ℕ → Result Unit OutFault → Drain → Type 0
WritesFirst n on old words (Ok done) new = WritesOut on old (words_bytes (take n words)) (Ok done) new
WritesFirst n on old words (Err fault) new = WritesOut on old (words_bytes words) (Err fault) new
