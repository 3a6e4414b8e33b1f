pub mod WritingEntries
pub mod ExactForms
pub mod JournalFiles
pub mod JournalLaws
pub mod WrongEntries
