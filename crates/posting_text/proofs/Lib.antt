mod Reading
mod Turning
mod Tabling
mod Canonical
mod CheckLaws
mod DirectLaws
mod LastEntry
