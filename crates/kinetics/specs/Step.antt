-- One step (document 01, "One step", points 1 to 4). Compartment i counts from 0: red cells, liver, kidney, other, trabecular, cortical.
-- Assumes nothing.
use Rattle.std.specs.Prelude.{ℕ, ◌+◌, ◌-◌, ◌*◌, ◌/◌, List, [], ◌∷◌, get_or}
use Rattle.numbers.specs.Sums.{sum_to}
use Rattle.row.specs.declared.Rates.{Rates}
use Rattle.row.specs.Row.{unit, out, back, exit}
use Rattle.kinetics.specs.declared.State.{State}

-- the seven compartments are a list, the plasma first: P, and Mi of compartment i
abbrev pub plasma : List ℕ → ℕ
plasma lead = get_or lead 0 0

abbrev pub amount : List ℕ → ℕ → ℕ
amount lead i = get_or lead (i + 1) 0

-- the burden: the seven compartments
abbrev pub burden : List ℕ → ℕ
burden lead = plasma lead + sum_to 6 (amount lead)

-- the most lead that a child may have, with the step's uptake: 5 × 10^10 pg (refusals 20 and 22)
abbrev pub burden_limit : ℕ
burden_limit = 50_000_000_000

-- the two compartments that have an exit
abbrev pub liver : ℕ
liver = 1

abbrev pub other : ℕ
other = 3

-- Ei
unfoldable pub compartment_divisor : Rates → ℕ → ℕ
compartment_divisor r i = unit + back r i + exit r i

-- point 1: what compartment i returns to plasma, and what of ai does not return within the step
unfoldable pub returned : Rates → List ℕ → ℕ → ℕ
returned r lead i = back r i * amount lead i / compartment_divisor r i

unfoldable pub retained : Rates → ℕ → ℕ
retained r i = out r i - out r i * back r i / compartment_divisor r i

-- n
unfoldable pub inflow : Rates → List ℕ → ℕ → ℕ
inflow r lead u = plasma lead + u + sum_to 6 (returned r lead)

-- d
unfoldable pub divisor : Rates → ℕ
divisor r = unit + r.urine + sum_to 6 (retained r)

-- p (B-8)
unfoldable pub solved_plasma : Rates → List ℕ → ℕ → ℕ
solved_plasma r lead u = inflow r lead u * unit / divisor r

-- point 2: new Mi (B-9)
unfoldable pub new_amount : Rates → List ℕ → ℕ → ℕ → ℕ
new_amount r lead p i = (amount lead i * unit + out r i * p) / compartment_divisor r i

-- point 3: urine, and the exit of compartment i from its new amount
unfoldable pub urine_exit : Rates → ℕ → ℕ
urine_exit r p = r.urine * p / unit

unfoldable pub compartment_exit : Rates → List ℕ → ℕ → ℕ → ℕ
compartment_exit r lead p i = exit r i * new_amount r lead p i / unit

-- the three exits
pub record Exits : Type 0 where
  pub urine : ℕ
  pub faeces : ℕ
  pub skin : ℕ

unfoldable pub exits : Rates → List ℕ → ℕ → Exits
exits r lead u =
    let p = solved_plasma r lead u in
    record { urine = urine_exit r p; faeces = compartment_exit r lead p liver; skin = compartment_exit r lead p other }

abbrev pub exit_sum : Exits → ℕ
exit_sum x = x.urine + x.faeces + x.skin

-- point 4: new P
unfoldable pub new_plasma : Rates → List ℕ → ℕ → ℕ
new_plasma r lead u =
    plasma lead + u + sum_to 6 (amount lead) - sum_to 6 (new_amount r lead (solved_plasma r lead u)) - exit_sum (exits r lead u)

-- the seven compartments after the step
unfoldable pub next_lead : Rates → List ℕ → ℕ → List ℕ
next_lead r lead u =
    let new = new_amount r lead (solved_plasma r lead u) in
    new_plasma r lead u ∷ new 0 ∷ new 1 ∷ new 2 ∷ new 3 ∷ new 4 ∷ new 5 ∷ []

-- the three ledgers of a state
abbrev pub urine_ledger : State → ℕ
urine_ledger s = get_or s.ledgers 0 0

abbrev pub faeces_ledger : State → ℕ
faeces_ledger s = get_or s.ledgers 1 0

abbrev pub skin_ledger : State → ℕ
skin_ledger s = get_or s.ledgers 2 0

-- the state after the step: each exit is added to its ledger
unfoldable pub next : Rates → State → ℕ → State
next r s u =
    let x = exits r s.lead u in
    record {
      month = s.month;
      lead = next_lead r s.lead u;
      ledgers = (urine_ledger s + x.urine) ∷ (faeces_ledger s + x.faeces) ∷ (skin_ledger s + x.skin) ∷ [];
    }
