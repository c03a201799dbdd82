-- A kept memory before its first line.
use Rattle.std.proofs.Common.{◌<◌, [], refl}
use Rattle.envy_array.specs.Array.{Array}
use Rattle.envy_begun.specs.Beginning.{HasBegun}
use Rattle.envy_memory.specs.Picture.{Picture}
use Rattle.envy_policy.specs.declared.setup.Setup.{Setup}
use Rattle.envy_run.specs.Tracing.{TracedSince}
use Rattle.envy_run.proofs.Traced.{traced-first}
use Rattle.envy_keep.specs.Since.{KeptSince}

-- a memory that has begun keeps its array before the first line
pub kept-first : (setup : Setup) (array : Array) (p : Picture) → 0 < setup.shape.entries → HasBegun setup array p → KeptSince (record { array = array; memory = p }) p []
kept-first setup array p some h = record {
  array = array;
  run = refl;
  stands = h.stands;
  telling = TracedSince.telling (traced-first setup p array some h.shape h.stands h.begins);
  plays = refl;
  shape = refl;
  saved = record { was = h.was; synced = h.synced; last = h.last; magic = h.magic; version = h.version; sound = h.sound; array = array; run = refl; words = h.words; on_disk = h.last };
}
