pub mod MeaningKept
pub mod GroupsCode
pub mod PlacesCode
pub mod GroupsAgree
pub mod Compiled
pub mod Accepted
pub mod MeaningRun
