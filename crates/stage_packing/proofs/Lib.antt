pub mod DepthLemmas
pub mod MemberLemmas
pub mod SetLemmas
pub mod NodeLemmas
pub mod SpotLemmas
pub mod UseLemmas
pub mod EndLemmas
pub mod LayoutLemmas
