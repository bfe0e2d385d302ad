pub mod RunFaults
