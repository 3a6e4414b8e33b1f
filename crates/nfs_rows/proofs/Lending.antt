-- What a value ends as, where a reference into it may have been lent.
use Rattle.std.proofs.Common.{◌≡◌}
use mathlib.Core.Option.{Option}
use Rattle.std.specs.Borrow.{GName}
use borrow.Follows.Closed.{read_of}

-- two ways to say it are one where they agree at each value that is left, and where nothing was lent
pub same_end : {D E : Type 0} (name : Option GName) (F G : E → D) (v u : D) → ((w : E) → F w ≡ G w) → v ≡ u → read_of name F v ≡ read_of name G u
same_end name F G v u lent none = λ i. read_of name (λ w. lent w i) (none i)
