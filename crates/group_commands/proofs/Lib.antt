pub mod GroupaddLemmas
