pub mod SegmentedList
