use Rattle.scope.proofs.CursorLaws.{free_mapped}
use Rattle.granting.proofs.grant_next.Goals as goal

pub grant-counts-requires-clause-all_mapped : goal.grant-counts-requires-clause-all_mapped
grant-counts-requires-clause-all_mapped c =
    free_mapped _ _ _ c.requires.next_value
