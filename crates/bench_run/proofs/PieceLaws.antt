-- The lines of a listing as pieces, and how long they can be.
use Prim.Native.Nat.{ℕ, ◌≤◌}
use native.Mathlib.Omega.{arith}
use mathlib.Core.List.{List, [], ◌∷◌, ◌++◌, append_assoc}
use mathlib.Core.Path.{◌≡◌, ap, ◌∙◌}
use lib.ListN.{length, length-append}
use lib.Count.{ones}
use Rattle.protocol.specs.Answer.{Said}
use Rattle.text.specs.Text.{decimal}
use Rattle.text.proofs.TextLaws.{number-le}
use Rattle.bench_run.specs.Listing.{event_line, said_line, station_line}

-- the lines as pieces
pub event-pieces : (k code letter sent : ℕ)
    → (decimal k ++ (32 ∷ [])) ++ ((decimal code ++ (32 ∷ [])) ++ ((letter ∷ 32 ∷ []) ++ (decimal sent ++ (10 ∷ [])))) ≡ event_line k code letter sent
unfolding event_line
event-pieces k code letter sent =
    append_assoc (decimal k) (32 ∷ []) _
    ∙ ap (λ (t : List ℕ). decimal k ++ (32 ∷ t)) (append_assoc (decimal code) (32 ∷ []) ((letter ∷ 32 ∷ []) ++ (decimal sent ++ (10 ∷ []))))

pub station-pieces : (u leader clock : ℕ)
    → (decimal u ++ (32 ∷ [])) ++ ((decimal leader ++ (32 ∷ [])) ++ (decimal clock ++ (10 ∷ []))) ≡ station_line u leader clock
unfolding station_line
station-pieces u leader clock =
    append_assoc (decimal u) (32 ∷ []) _
    ∙ ap (λ (t : List ℕ). decimal u ++ (32 ∷ t)) (append_assoc (decimal leader) (32 ∷ []) (decimal clock ++ (10 ∷ [])))

pub event-le : (k code letter sent : ℕ) → length (event_line k code letter sent) ≤ 35
event-le k code letter sent =
    let a = number-le k 32 in
    let b = number-le code 32 in
    let d = number-le sent 10 in
    omega (
      arith,
      ap length (event-pieces k code letter sent),
      length-append (decimal k ++ (32 ∷ [])) ((decimal code ++ (32 ∷ [])) ++ ((letter ∷ 32 ∷ []) ++ (decimal sent ++ (10 ∷ [])))),
      length-append (decimal code ++ (32 ∷ [])) ((letter ∷ 32 ∷ []) ++ (decimal sent ++ (10 ∷ []))),
      length-append (letter ∷ 32 ∷ []) (decimal sent ++ (10 ∷ [])),
    )

pub station-le : (u leader clock : ℕ) → length (station_line u leader clock) ≤ 33
station-le u leader clock =
    let a = number-le u 32 in
    let b = number-le leader 32 in
    let d = number-le clock 10 in
    omega (
      arith,
      ap length (station-pieces u leader clock),
      length-append (decimal u ++ (32 ∷ [])) ((decimal leader ++ (32 ∷ [])) ++ (decimal clock ++ (10 ∷ []))),
      length-append (decimal leader ++ (32 ∷ [])) (decimal clock ++ (10 ∷ [])),
    )

-- the line of what is said
pub said-line : (k : ℕ) (s : Said) {code letter sent : ℕ} → code ≡ s.why.number → letter ≡ s.value.rule → sent ≡ ones s.value.sent_to
    → event_line k code letter sent ≡ said_line k s
unfolding said_line
said-line k s a b d = rw (a, b, d)

pub said-le : (k : ℕ) (s : Said) → length (said_line k s) ≤ 35
unfolding said_line
said-le k s = event-le k s.why.number s.value.rule (ones s.value.sent_to)
