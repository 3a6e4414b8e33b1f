-- Answering whole records in their order; used only in the contracts of this crate's own functions.
use Rattle.std.specs.Prelude.{◌≡◌, ℕ, List, [], ◌++◌, Result, Err, OnOk, IsErrOf, ◌≢◌}
use Rattle.nfs_server.specs.declared.serve_error.ServeError.{ServeError}
use Rattle.nfs_server.specs.declared.serve_error.ServeError.TheVariants as errors
use Rattle.nfs_server.specs.Connection.{Scene}
use Rattle.nfs_server.specs.Device.{Device, IsCut, IsWritten}
use Rattle.nfs_server.specs.Exchange.{Exchange, Rules, AreExchanged, AreLeft, messages_of, written_for_all}

-- how the replies were written: completely, or partly if a write failed
abbrev pub GoesOut : {D T : Type 0} → Device D → Result T ServeError → D → List ℕ → D → Type 0
GoesOut device (Err errors.Write) = IsCut device
GoesOut device result = IsWritten device

-- Records were answered in their order, and all of them if there was no error.
pub record IsServed {D S C T : Type 0} (device : Device D) (rules : Rules S C)
    (before : Scene D S C) (messages : List (List ℕ)) (result : Result T ServeError)
    (after : Scene D S C) : Type 0 where
  pub exchanges : List Exchange
  pub unanswered : List (List ℕ)
  pub service : S
  pub served : messages ≡ messages_of exchanges ++ unanswered
  pub exchanged : AreExchanged rules before.service before.clock exchanges service after.clock
  pub left : AreLeft rules.alike service unanswered after.service
  pub none_left : OnOk result (unanswered ≡ [])
  pub some_left : IsErrOf result errors.Memory → unanswered ≢ []
  pub written : GoesOut device result before.device (written_for_all rules.export exchanges)
      after.device
