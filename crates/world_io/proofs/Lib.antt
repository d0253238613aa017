pub mod BytesLemmas
pub mod FaultsLemmas
pub mod FrontLemmas
