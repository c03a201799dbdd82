pub mod Calls
pub use Rattle.envy_base.specs.State
pub use Rattle.envy_map.specs.Fields
