pub mod AnyAnswer
