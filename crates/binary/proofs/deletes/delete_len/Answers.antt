use Rattle.drat.specs.Grammar.{step_of, encode_step}
use Rattle.drat.specs.declared.Kind.TheVariants.{Delete}
use Rattle.binary.proofs.NamedLaws.{pair_named}
use Prim.Native.Nat.{ℕ}
use lib.ListN.{length}
use mathlib.Core.List.{List}
use mathlib.Core.Path.{ap, ◌∙◌}
use Rattle.binary.proofs.deletes.delete_len.Goals as goal

pub returns : goal.returns
returns c =
    let e = pair_named c.args.gs.now c.args.x c.args.m _ _ c.rename_lit.ensures
    c.rename_lit-2.ensures in
    c.step_len.ensures.value ∙ ap (λ (ls : List ℕ). length (encode_step c.args.f (step_of Delete ls))) e
