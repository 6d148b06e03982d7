mod Walks
mod LogLemmas
mod Promises
