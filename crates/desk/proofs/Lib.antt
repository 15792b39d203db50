mod Amounts
mod Cents
mod Tables
