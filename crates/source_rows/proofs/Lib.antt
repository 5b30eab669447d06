mod NeedLemmas
mod ChainLemmas
mod StepLemmas
pub mod PlaceLemmas
pub mod BelowLemmas
pub mod GroupLemmas
mod MemberLemmas
mod OrderLemmas
mod ShardLemmas
