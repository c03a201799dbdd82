pub mod Exits
pub mod Extremes
pub mod Quieting
pub mod StagesLemmas
