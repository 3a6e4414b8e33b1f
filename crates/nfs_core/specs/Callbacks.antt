-- What whoever calls clients back asks of the state: how a client is called, and whether its delegation stands.
use Rattle.std.specs.Prelude.{ℕ, Bool, is_some, Option, option_map}
use Rattle.nfs_core.specs.Server.{Server}
use Rattle.nfs_forms.specs.declared.callback.Callback.{Callback}
use Rattle.nfs_forms.specs.declared.stateid.Stateid.{Stateid}
use Rattle.nfs_owners.specs.Registry.{record_of, record_state}
use Rattle.nfs_share.specs.AllOpens.{delegation_named_in}

-- how the live client with this number is called back, if there is one
abbrev pub callback_of : ℕ → Server → Option Callback
callback_of client server =
    option_map (λ state. state.callback)
    (record_state (record_of (record { epoch = server.journal.epoch; number = client })
    server.stored.clients))

-- a client has the delegation that the stateid names, no matter its seqid
abbrev pub has_delegation : Stateid → Server → Bool
has_delegation stateid server =
    is_some (delegation_named_in stateid server.stored.delegations)
