-- The definitions that the contracts of this crate cite.
pub mod SuiteKey
pub mod SessionKey
pub mod SuiteCipher
pub mod CardKey
pub mod CardSecret
pub mod LazyKey
pub mod Digits
pub mod MasterKey
pub mod SuiteMac
pub mod SuiteRun
