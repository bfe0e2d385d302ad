pub mod FlatGraphs
