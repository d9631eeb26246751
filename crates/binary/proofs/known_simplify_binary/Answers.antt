use Rattle.binary.proofs.NamedLaws.{small}
use Rattle.binary.proofs.ThinLaws.{meets}
use lib.ListN.{length}
use mathlib.Core.Path.{refl}
use Rattle.binary.proofs.known_simplify_binary.Goals as goal

pub thin_lists-requires : goal.thin_lists-requires
thin_lists-requires c =
    small _ c.requires

pub returns-clause-meets : goal.returns-clause-meets
returns-clause-meets c =
    let k = c.thin_lists.ensures _ c.requires refl refl refl in
    meets c.args.f _ c.args.lists.now (length c.args.out.now) (length c.args.bytes.now)
    c.thin_lists.result k.0
