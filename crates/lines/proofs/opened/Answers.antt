-- `lines::opened` meets its contract: its tests are those of the definition, in their order.
use mathlib.Core.Path.{sym, ◌∙◌}
use Rattle.lines.specs.Lines.{comment_sign, op_add, op_drop, op_rate, op_find, opens}
use Rattle.lines.proofs.Starts.{begins, equals}
use Rattle.lines.proofs.opened.Goals as goal

pub returns-then-starts_with : goal.returns-then-starts_with
unfolding opens
returns-then-starts_with c = rw (sym (begins comment_sign c.args.line.now c.starts_with.ensures.value) ∙ c.if-starts_with.true)

pub returns-then-eq : goal.returns-then-eq
unfolding opens
returns-then-eq c =
    let line = c.args.line.now in
    let comment = sym (begins comment_sign line c.starts_with.ensures.value) ∙ c.if-starts_with.false in
    rw (comment, sym (equals op_add line c.as_slice.ensures c.eq.ensures) ∙ c.if-eq.true)

pub returns-then-eq-2 : goal.returns-then-eq-2
unfolding opens
returns-then-eq-2 c =
    let line = c.args.line.now in
    let comment = sym (begins comment_sign line c.starts_with.ensures.value) ∙ c.if-starts_with.false in
    let added = sym (equals op_add line c.as_slice.ensures c.eq.ensures) ∙ c.if-eq.false in
    rw (comment, added, sym (equals op_drop line c.as_slice-else-eq.ensures c.eq-else-eq.ensures) ∙ c.if-eq-2.true)

pub returns-then-eq-3 : goal.returns-then-eq-3
unfolding opens
returns-then-eq-3 c =
    let line = c.args.line.now in
    let comment = sym (begins comment_sign line c.starts_with.ensures.value) ∙ c.if-starts_with.false in
    let added = sym (equals op_add line c.as_slice.ensures c.eq.ensures) ∙ c.if-eq.false in
    let dropped = sym (equals op_drop line c.as_slice-else-eq.ensures c.eq-else-eq.ensures) ∙ c.if-eq-2.false in
    rw (comment, added, dropped, sym (equals op_rate line c.as_slice-else-eq-2.ensures c.eq-else-eq-2.ensures) ∙ c.if-eq-3.true)

pub returns-then-eq-4 : goal.returns-then-eq-4
unfolding opens
returns-then-eq-4 c =
    let line = c.args.line.now in
    let comment = sym (begins comment_sign line c.starts_with.ensures.value) ∙ c.if-starts_with.false in
    let added = sym (equals op_add line c.as_slice.ensures c.eq.ensures) ∙ c.if-eq.false in
    let dropped = sym (equals op_drop line c.as_slice-else-eq.ensures c.eq-else-eq.ensures) ∙ c.if-eq-2.false in
    let rated = sym (equals op_rate line c.as_slice-else-eq-2.ensures c.eq-else-eq-2.ensures) ∙ c.if-eq-3.false in
    rw (comment, added, dropped, rated, sym (equals op_find line c.as_slice-else-eq-3.ensures c.eq-else-eq-3.ensures) ∙ c.if-eq-4.true)

pub returns-else-eq-4 : goal.returns-else-eq-4
unfolding opens
returns-else-eq-4 c =
    let line = c.args.line.now in
    let comment = sym (begins comment_sign line c.starts_with.ensures.value) ∙ c.if-starts_with.false in
    let added = sym (equals op_add line c.as_slice.ensures c.eq.ensures) ∙ c.if-eq.false in
    let dropped = sym (equals op_drop line c.as_slice-else-eq.ensures c.eq-else-eq.ensures) ∙ c.if-eq-2.false in
    let rated = sym (equals op_rate line c.as_slice-else-eq-2.ensures c.eq-else-eq-2.ensures) ∙ c.if-eq-3.false in
    rw (comment, added, dropped, rated, sym (equals op_find line c.as_slice-else-eq-3.ensures c.eq-else-eq-3.ensures) ∙ c.if-eq-4.false)
