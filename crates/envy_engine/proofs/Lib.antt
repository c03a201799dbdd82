pub mod AgreeLemmas
pub mod AvailLemmas
mod Bounds
pub mod BringAnswers
pub mod BudgetLemmas
pub mod CleanLemmas
pub mod CountLemmas
pub mod ElsewhereLemmas
mod EndAnswers
pub mod EndLemmas
pub mod FlushAnswers
pub mod FlushLemmas
pub mod JobLemmas
pub mod KeptLemmas
pub mod Leaving
pub mod LookLemmas
pub mod NearLemmas
pub mod PutLemmas
pub mod RestartLemmas
mod RoomAnswers
pub mod RowLemmas
mod SettleAnswers
mod ShadeAnswers
pub mod ShadeLemmas
pub mod StepLemmas
pub mod StoreLemmas
mod SwapAnswers
mod TakenAnswers
mod TickAnswers
mod TickLemmas
pub mod WearLemmas
mod WordAnswers
