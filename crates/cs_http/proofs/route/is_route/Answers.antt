use Rattle.std.proofs.Common.{refl}
use Rattle.matchit.proofs.OnLiterals.{matchit_on_literals}
use Rattle.cs_http.proofs.OneRoute.{only_route}
use Rattle.cs_http.proofs.route.is_route.Goals as goal

pub returns : goal.returns
unfolding matchit_on_literals
returns c =
    let a = rw c.new-router.ensures at c.in-Ok.ensures in
    only_route _ c.args.target.now _ c.insert.new.self c.serves.result refl a.1 c.serves.ensures
