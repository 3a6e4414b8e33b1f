-- What contracts say of a core: its steps, what always holds of it, and which journals are lawful.
pub mod Step
pub mod Lawful
pub mod Safe
pub mod Recalls
pub mod Server
pub mod Entered
pub mod CoreError
pub mod Following
pub mod Events
pub mod Forgetting
pub mod ForgetLaws
pub mod LiveClients
pub mod Callbacks
