pub mod NumberLemmas
mod OneFault
pub mod WordLemmas
