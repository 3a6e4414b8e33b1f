-- The addresses that the server stores (clientaddr4; RFC 7530, section 2.2).
use Rattle.std.specs.Prelude.{nat_le, Bool, ◌&&◌, length}
use Rattle.nfs_owners.specs.declared.client_callback.TheConstants.{ADDRESS_LIMIT}
use Rattle.nfs_forms.specs.declared.callback.Address.{Address}

-- both parts of the address are within the limit
abbrev pub is_within_limit : Address → Bool
is_within_limit address =
    nat_le (length address.netid) ADDRESS_LIMIT && nat_le (length address.addr) ADDRESS_LIMIT
