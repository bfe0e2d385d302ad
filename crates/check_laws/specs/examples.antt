pub mod SomeFiles
