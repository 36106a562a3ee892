pub mod FunctionCode
