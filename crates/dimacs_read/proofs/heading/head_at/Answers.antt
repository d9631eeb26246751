use Prim.Native.Nat.{◌+◌}
use mathlib.Core.Path.{refl, sym, ◌∙◌}
use native.Mathlib.Omega.{arith}
use lib.ListN.{length, drop, length-drop}
use Rattle.dimacs.specs.Reading.{value_from}
use Rattle.dimacs_read.specs.Heading.{digits_at}
use Rattle.dimacs_read.proofs.CallLaws.{starts_length}
use Rattle.dimacs_read.proofs.HeadingLaws.{no_opening, no_first, too_large, no_blank, no_second, no_feed, head_found, capped_above, capped_small}
use Rattle.dimacs_read.proofs.heading.head_at.Goals as goal

pub returns-then-not-header_starts : goal.returns-then-not-header_starts
returns-then-not-header_starts c =
    let a = c.args in
    let s = a.s.now in
    no_opening s a.at (sym c.header_starts.ensures ∙ c.if-not-header_starts.true)

pub run_at-v-requires : goal.run_at-v-requires
run_at-v-requires c =
    let a = c.args in
    let s = a.s.now in
    let t₁ = sym c.header_starts.ensures ∙ c.if-not-header_starts.false in
    omega (arith, starts_length (drop a.at s) t₁, length-drop a.at s)

pub returns-then-not-is_proper : goal.returns-then-not-is_proper
returns-then-not-is_proper c =
    let a = c.args in
    let s = a.s.now in
    let p = c.run_at-v.result.next in
    let q = p + 1 + length (digits_at s (p + 1)) in
    let t₁ = sym c.header_starts.ensures ∙ c.if-not-header_starts.false in
    no_first s a.at p q c.run_at-v.ensures.next_value refl t₁ (sym c.is_proper.ensures ∙ c.if-not-is_proper.true)

pub returns-then-v-gt4096 : goal.returns-then-v-gt4096
returns-then-v-gt4096 c =
    let a = c.args in
    let s = a.s.now in
    let p = c.run_at-v.result.next in
    let q = p + 1 + length (digits_at s (p + 1)) in
    let t₁ = sym c.header_starts.ensures ∙ c.if-not-header_starts.false in
    let t₂ = sym c.is_proper.ensures ∙ c.if-not-is_proper.false in
    let t₃ = capped_above c.run_at-v.result.value (value_from 0 (digits_at s (a.at + 6))) c.run_at-v.ensures.capped
    c.if-v-gt4096.true in
    too_large s a.at p q c.run_at-v.ensures.next_value refl t₁ t₂ t₃

pub returns-then-not-stands : goal.returns-then-not-stands
returns-then-not-stands c =
    let a = c.args in
    let s = a.s.now in
    let p = c.run_at-v.result.next in
    let q = p + 1 + length (digits_at s (p + 1)) in
    let t₁ = sym c.header_starts.ensures ∙ c.if-not-header_starts.false in
    let t₂ = sym c.is_proper.ensures ∙ c.if-not-is_proper.false in
    let t₃ = capped_small c.run_at-v.result.value (value_from 0 (digits_at s (a.at + 6)))
    c.run_at-v.ensures.capped c.if-v-gt4096.false in
    no_blank s a.at p q c.run_at-v.ensures.next_value refl t₁ t₂ t₃.0 (sym c.stands.ensures ∙ c.if-not-stands.true)

pub returns-then-not-is_proper-2 : goal.returns-then-not-is_proper-2
returns-then-not-is_proper-2 c =
    let a = c.args in
    let s = a.s.now in
    let p = c.run_at-v.result.next in
    let q = c.run_at-c.result.next in
    let t₁ = sym c.header_starts.ensures ∙ c.if-not-header_starts.false in
    let t₂ = sym c.is_proper.ensures ∙ c.if-not-is_proper.false in
    let t₃ = capped_small c.run_at-v.result.value
    (value_from 0 (digits_at s (a.at + 6))) c.run_at-v.ensures.capped c.if-v-gt4096.false in
    let t₄ = sym c.stands.ensures ∙ c.if-not-stands.false in
    no_second s a.at p q c.run_at-v.ensures.next_value c.run_at-c.ensures.next_value t₁ t₂ t₃.0 t₄ (sym c.is_proper-2.ensures ∙ c.if-not-is_proper-2.true)

pub returns-then-not-stands-2 : goal.returns-then-not-stands-2
returns-then-not-stands-2 c =
    let a = c.args in
    let s = a.s.now in
    let p = c.run_at-v.result.next in
    let q = c.run_at-c.result.next in
    let t₁ = sym c.header_starts.ensures ∙ c.if-not-header_starts.false in
    let t₂ = sym c.is_proper.ensures ∙
    c.if-not-is_proper.false in
    let t₃ = capped_small
    c.run_at-v.result.value
    (value_from 0 (digits_at s (a.at + 6))) c.run_at-v.ensures.capped c.if-v-gt4096.false in
    let t₄ = sym c.stands.ensures ∙ c.if-not-stands.false in
    let t₅ = sym c.is_proper-2.ensures ∙ c.if-not-is_proper-2.false in
    no_feed s a.at p q c.run_at-v.ensures.next_value c.run_at-c.ensures.next_value t₁ t₂ t₃.0 t₄ t₅ (sym c.stands-2.ensures ∙ c.if-not-stands-2.true)

pub returns : goal.returns
returns c =
    let a = c.args in
    let s = a.s.now in
    let p = c.run_at-v.result.next in
    let q = c.run_at-c.result.next in
    let t₁ = sym c.header_starts.ensures ∙ c.if-not-header_starts.false in
    let t₂ = sym c.is_proper.ensures ∙
    c.if-not-is_proper.false in
    let t₃ = capped_small
    c.run_at-v.result.value
    (value_from 0 (digits_at s (a.at + 6))) c.run_at-v.ensures.capped
    c.if-v-gt4096.false in
    let t₄ = sym c.stands.ensures ∙ c.if-not-stands.false in
    let t₅ = sym c.is_proper-2.ensures ∙ c.if-not-is_proper-2.false in
    let t₆ = sym c.stands-2.ensures ∙ c.if-not-stands-2.false in
    head_found s a.at p q c.run_at-v.ensures.next_value c.run_at-c.ensures.next_value t₁ t₂ t₃.0 t₄ t₅ t₆
    c.run_at-v.result.value
    c.run_at-c.result.value t₃.1 c.run_at-c.ensures.capped
