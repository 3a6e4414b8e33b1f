-- What contracts say of records, calls, replies and callbacks as bytes.
pub mod Records
pub mod Keeping
pub mod AuthSys
pub mod Credential
pub mod Reply
pub mod RpcCall
pub mod ReadingCalls
pub mod RecordError
pub mod CallbackCall
pub mod CallbackReply
pub mod ReadingCallbackReplies
pub mod UniversalAddress
pub mod ReadingAddresses
