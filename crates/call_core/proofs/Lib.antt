pub mod FunctionCodes
