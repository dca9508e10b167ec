pub mod EntryCalls
