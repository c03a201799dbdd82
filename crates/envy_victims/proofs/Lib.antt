pub mod ChoosingLemmas
pub mod PooledLemmas
