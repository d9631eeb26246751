use Rattle.std.proofs.lemmas.Result.{err_from_is_err_and}
use Rattle.scope.specs.Lookup.{global_from_user_of}
use Rattle.table.proofs.CheckLaws.{refuses_1}
use Rattle.var_map.proofs.LookupLaws.{lookup_1}
use Rattle.var_map.proofs.get_global_from_user.Goals as goal

pub returns-in_err-check_table : goal.returns-in_err-check_table
unfolding global_from_user_of
returns-in_err-check_table c =
    let p = err_from_is_err_and c.from_residual.result c.from_residual.ensures.1 in
    let q = refuses_1 _ _ _ c.check_table.ensures c.in_err-check_table.was in
    rw (p.1, p.2, q.1) (lookup_1 _ _ _ q.0)
