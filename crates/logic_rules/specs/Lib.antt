pub mod ByPorts
