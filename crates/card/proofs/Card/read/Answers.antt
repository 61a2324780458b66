-- `card::Card::read` meets its contract.
use mathlib.Core.Path.{ap, ◌∙◌}
use Rattle.figures.specs.Figure.{plain_field, figure_field}
use Rattle.card.specs.Row.{readings_by}
use Rattle.card.proofs.Rows.{row_refused, field_refused, row_accepted}
use Rattle.card.proofs.Card.read.Goals as goal

pub returns-in_err-check : goal.returns-in_err-check
returns-in_err-check c = row_refused c.args.row.now _ c.from_residual.result c.from_residual.ensures.1 c.in_err-check.ensures

pub returns-in_err-figure_field : goal.returns-in_err-figure_field
unfolding readings_by
returns-in_err-figure_field c = field_refused c.args.row.now 0 c.from_residual-in_err-figure_field.result c.from_residual-in_err-figure_field.ensures.1 c.in_err-figure_field.ensures (ap (figure_field 1) c.field.ensures.value)

pub returns-in_err-figure_field-2 : goal.returns-in_err-figure_field-2
unfolding readings_by
returns-in_err-figure_field-2 c = field_refused c.args.row.now 1 c.from_residual-in_err-figure_field-2.result c.from_residual-in_err-figure_field-2.ensures.1 c.in_err-figure_field-2.ensures (ap (figure_field 1) c.field-2.ensures.value)

pub returns-in_err-age : goal.returns-in_err-age
unfolding readings_by
returns-in_err-age c = field_refused c.args.row.now 2 c.from_residual-in_err-age.result c.from_residual-in_err-age.ensures.1 c.in_err-age.ensures (ap plain_field c.field-3.ensures.value)

pub returns-in_err-soil : goal.returns-in_err-soil
unfolding readings_by
returns-in_err-soil c = field_refused c.args.row.now 3 c.from_residual-in_err-soil.result c.from_residual-in_err-soil.ensures.1 c.in_err-soil.ensures (ap (figure_field 1) c.field-4.ensures.value)

pub returns-in_err-dust : goal.returns-in_err-dust
unfolding readings_by
returns-in_err-dust c = field_refused c.args.row.now 4 c.from_residual-in_err-dust.result c.from_residual-in_err-dust.ensures.1 c.in_err-dust.ensures (ap (figure_field 1) c.field-5.ensures.value)

pub returns-in_err-water : goal.returns-in_err-water
unfolding readings_by
returns-in_err-water c = field_refused c.args.row.now 5 c.from_residual-in_err-water.result c.from_residual-in_err-water.ensures.1 c.in_err-water.ensures (ap (figure_field 1) c.field-6.ensures.value)

pub returns-in_err-air : goal.returns-in_err-air
unfolding readings_by
returns-in_err-air c = field_refused c.args.row.now 6 c.from_residual-in_err-air.result c.from_residual-in_err-air.ensures.1 c.in_err-air.ensures (ap (figure_field 1000) c.field-7.ensures.value)

pub returns-in_err-other : goal.returns-in_err-other
unfolding readings_by
returns-in_err-other c = field_refused c.args.row.now 7 c.from_residual-in_err-other.result c.from_residual-in_err-other.ensures.1 c.in_err-other.ensures (ap (figure_field 1000) c.field-8.ensures.value)

pub returns-in_err-figure_field-3 : goal.returns-in_err-figure_field-3
unfolding readings_by
returns-in_err-figure_field-3 c = field_refused c.args.row.now 8 c.from_residual-in_err-figure_field-3.result c.from_residual-in_err-figure_field-3.ensures.1 c.in_err-figure_field-3.ensures (ap (figure_field 1) c.field-9.ensures.value)

pub returns-in_err-abssoil : goal.returns-in_err-abssoil
unfolding readings_by
returns-in_err-abssoil c = field_refused c.args.row.now 9 c.from_residual-in_err-abssoil.result c.from_residual-in_err-abssoil.ensures.1 c.in_err-abssoil.ensures (ap plain_field c.field-10.ensures.value)

pub returns-in_err-absdust : goal.returns-in_err-absdust
unfolding readings_by
returns-in_err-absdust c = field_refused c.args.row.now 10 c.from_residual-in_err-absdust.result c.from_residual-in_err-absdust.ensures.1 c.in_err-absdust.ensures (ap plain_field c.field-11.ensures.value)

pub returns : goal.returns
returns c =
    row_accepted c.args.row.now _ _ _ _ _ _ _ _ _ _ _ c.in_ok-check.ensures
    (c.in_ok-figure_field.ensures ∙ ap (figure_field 1) c.field.ensures.value)
    (c.in_ok-figure_field-2.ensures ∙ ap (figure_field 1) c.field-2.ensures.value)
    (c.in_ok-age.ensures ∙ ap plain_field c.field-3.ensures.value)
    (c.in_ok-soil.ensures ∙ ap (figure_field 1) c.field-4.ensures.value)
    (c.in_ok-dust.ensures ∙ ap (figure_field 1) c.field-5.ensures.value)
    (c.in_ok-water.ensures ∙ ap (figure_field 1) c.field-6.ensures.value)
    (c.in_ok-air.ensures ∙ ap (figure_field 1000) c.field-7.ensures.value)
    (c.in_ok-other.ensures ∙ ap (figure_field 1000) c.field-8.ensures.value)
    (c.in_ok-figure_field-3.ensures ∙ ap (figure_field 1) c.field-9.ensures.value)
    (c.in_ok-abssoil.ensures ∙ ap plain_field c.field-10.ensures.value)
    (c.in_ok-absdust.ensures ∙ ap plain_field c.field-11.ensures.value)
