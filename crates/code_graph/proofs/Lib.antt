pub mod KeyLemmas
