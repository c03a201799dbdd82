pub mod Agreement
pub mod Entries
pub mod Order
pub use Rattle.envy_base.specs.Shape
pub use Rattle.envy_base.specs.State
pub use Rattle.envy_map.specs.Fields
pub use Rattle.envy_soundness.specs.Sound
