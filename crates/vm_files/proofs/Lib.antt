mod FilePairs
mod Giving
mod Making
mod Migrating
