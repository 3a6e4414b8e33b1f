-- What contracts say of lease words: steps on a word, what a seat knows, and the table's rules.
pub mod Calls
pub mod Deeds
pub mod Desk
pub mod Plays
pub mod Rule
pub mod Rules
pub mod SeatLaws
pub mod Sitting
pub mod Views
pub mod Words
pub mod laws
