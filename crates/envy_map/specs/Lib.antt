pub mod Codes
pub mod Fields
pub mod Writes
pub use Rattle.envy_base.specs.Counting
pub use Rattle.envy_base.specs.Map
pub use Rattle.envy_base.specs.Shape
pub use Rattle.envy_base.specs.State
