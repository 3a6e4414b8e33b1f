use Rattle.std.proofs.Common.{ap, ◌∙◌}
use Rattle.nfs_tree.proofs.Cookies.{is_child_of, is_cookie_of}
use Rattle.nfs_tree.proofs.tree.Tree.is_cookie.Goals as goal

pub returns-in-Some : goal.returns-in-Some
returns-in-Some c =
    ap (is_child_of c.args.directory) c.in-Some.ensures ∙ is_cookie_of c.args.self.now.nodes c.args.directory c.args.cookie c.if-cookie-eq0.false

pub returns-in-None : goal.returns-in-None
returns-in-None c =
    ap (is_child_of c.args.directory) c.in-None.ensures ∙ is_cookie_of c.args.self.now.nodes c.args.directory c.args.cookie c.if-cookie-eq0.false
