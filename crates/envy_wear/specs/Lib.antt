pub mod Swaps
pub use Rattle.envy_base.specs.Shape
pub use Rattle.envy_base.specs.State
pub use Rattle.envy_map.specs.Fields
pub use Rattle.envy_soundness.specs.Sound
