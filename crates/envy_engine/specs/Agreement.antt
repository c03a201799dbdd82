-- When the parts of a memory agree with its board.
use Rattle.std.specs.Prelude.{◌≡◌, ℕ, ◌-◌, ◌≤◌, ◌<◌, IsTrue, List, length, All}
use Rattle.envy_base.specs.declared.shape.Shape.{Shape}
use Rattle.envy_map.specs.Fields.{Fields, Chart}
use Rattle.envy_soundness.specs.Sound.{IsSound}
use Rattle.envy_frames.specs.Agreement.{AreHeld}
use Rattle.envy_space.specs.Pool.{PoolAgrees}
use Rattle.envy_table.specs.Agreement.{AreCurrent}
use Rattle.envy_soundness.specs.Naming.{AreParted}
use Rattle.envy_reloc.specs.Plan.{IsPlanOf}
use Rattle.envy_engine.specs.declared.parts.Parts.{Parts}
use Rattle.envy_base.specs.Shape.{positions_of}

-- the stages that are left of a swap are positions, two at most
pub record AreStages (sh : Shape) (stages : List ℕ) : Type 0 where
  pub within : All (λ k. k < positions_of sh) stages
  pub few : length stages ≤ 2

-- the parts have the sizes of the board, with power or without
pub record Fits (sh : Shape) (x : Parts) : Type 0 where
  pub pool : x.space.shape ≡ sh
  pub frames : x.frames.count ≡ sh.frames
  pub entries : length x.cache.entries ≡ sh.entries
  pub positions : x.chooser.positions ≡ positions_of sh
  pub pages : x.chooser.pages ≡ sh.pages
  pub stages : AreStages sh x.stages

-- and what they say of it is so
pub record Agrees (sh : Shape) (f : Fields) (flash : List (List ℕ)) (x : Parts) : Type 0 where
  pub pool : PoolAgrees sh f x.space
  pub held : AreHeld sh f.places x.frames.held
  pub current : AreCurrent sh.pages f.places x.cache.entries
  pub job : IsPlanOf sh f flash x.reloc
  pub two : AreParted f.slots f.undos f.places

abbrev pub PartsAgree : Chart → Parts → Type 0
PartsAgree c x = Agrees c.shape c.fields c.flash x

-- what a call asks for: power is on, the board is sound, and the parts agree with it
pub record Ready (c : Chart) (x : Parts) : Type 0 where
  pub on : IsTrue c.on
  pub sound : IsSound c
  pub fits : Fits c.shape x
  pub agrees : PartsAgree c x

-- and what it leaves at each exit, beside a sound board
pub record Steady (c : Chart) (x : Parts) : Type 0 where
  pub fits : Fits c.shape x
  pub agrees : IsTrue c.on → PartsAgree c x
