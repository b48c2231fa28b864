-- The worth of a lot is kept.
use Rattle.std.proofs.Common.{◌≡◌, ℕ, ◌+◌, ◌-◌, ◌*◌, ◌/◌, ◌%◌, ◌<◌, ◌≤◌, sym, ap, mod-lt, mul-le-mul_left, arith}
use native.Mathlib.Nat.{div-add-mod}
use Rattle.std.proofs.lemmas.Bool.Decides.{nat_tests}
use Rattle.terms.specs.Refusals.{first}
use Rattle.terms.specs.Reference.{without_cash, reference, reference_refusals}
use Rattle.terms.specs.Family.{Answers, Law}
use Rattle.terms.specs.Adjust.{cash_amount, next_units, adjusted}
use Rattle.terms.specs.Worth.{distance, rounding_bound, WorthKept}
use Rattle.terms.specs.declared.event.Event.{Event}
use Rattle.terms.specs.declared.terms.Terms.{Terms}

-- the price less the cash, by the units
less_cash : (q p c n : ℕ) → n + 100000 * c ≡ 1000000000 * p → 1000000000 * (p * q) ≡ q * n + 100000 * (q * c)
less_cash q p c n h = omega (arith, ap (λ x. q * x) h)

-- the rounding of the reference price, by the units
rounded : (q n d r s : ℕ) → 2 * d * r + s ≡ 2 * n + d → 2 * (q * n) + q * d ≡ 2 * (r * (q * d)) + q * s
rounded q n d r s h = omega (arith, ap (λ x. q * x) h)

-- the dropped part of the new units, by the reference price
dropped : (r m q' t : ℕ) → m ≡ 1000000000 * q' + t → r * m ≡ 1000000000 * (r * q') + r * t
dropped r m q' t h = omega (arith, ap (λ x. r * x) h)

below : (r t : ℕ) → t < 1000000000 → r * t + r ≤ 1000000000 * r
below r t h = omega (arith, mul-le-mul_left r h)

twice : (q s d : ℕ) → s < 2 * d → q * s ≤ 2 * (q * d)
twice q s d h = let k : q * s ≤ q * (2 * d) = mul-le-mul_left q (omega arith) in omega arith

-- the products of the proof, as plain numbers, are related by what the divisions leave:
-- 10^9 worth_before - 10^9 worth_after = q (N - R r) + 10^5 u + R t
weigh :
    (pq qn qc qr qrr qs rq rt q' amount t u r : ℕ) →
    1000000000 * pq ≡ qn + 100000 * qc →
    qc ≡ 10000000000 * amount + u →
    u < 10000000000 →
    2 * qn + qr ≡ 2 * qrr + qs →
    qs ≤ 2 * qr →
    qr ≡ 1000000000 * q' + t →
    t < 1000000000 →
    qrr ≡ 1000000000 * rq + rt →
    rt + r ≤ 1000000000 * r →
    1 ≤ r →
    2 * ((pq - (rq + amount * 1000000)) + ((rq + amount * 1000000) - pq)) < 2000000 + 2 * r + q' + 1
weigh pq qn qc qr qrr qs rq rt q' amount t u r e1 e2 h1 e3 h2 e4 h3 e5 h4 h5 = omega arith

module _ (q p c d : ℕ) (hc : c ≤ p * 10000) (hd : 1 ≤ d) (hr : 1 ≤ reference p c d) where
  -- at one lot, with the amount that is paid on it
  near :
      2 * distance (p * q) (reference p c d * (q * d / 1000000000) + q * c / 10000000000 * 1000000)
      < 2000000 + 2 * reference p c d + q * d / 1000000000 + 1
  near =
      let n = without_cash p c in
      let r = reference p c d in
      let s = (2 * n + d) % (2 * d) in
      let t = q * d % 1000000000 in
      let u = q * c % 10000000000 in
      let hs : s < 2 * d = mod-lt (2 * n + d) (omega arith) in
      let ht : t < 1000000000 = mod-lt (q * d) (omega arith) in
      let hu : u < 10000000000 = mod-lt (q * c) (omega arith) in
      let units : q * d ≡ 1000000000 * (q * d / 1000000000) + t = sym (div-add-mod (q * d) 1000000000) in
      weigh (p * q) (q * n) (q * c) (q * d) (r * (q * d)) (q * s) (r * (q * d / 1000000000)) (r * t)
      (q * d / 1000000000) (q * c / 10000000000) t u r
      (less_cash q p c n (omega arith))
      (sym (div-add-mod (q * c) 10000000000))
      hu
      (rounded q n d r s (div-add-mod (2 * n + d) (2 * d)))
      (twice q s d hs)
      units
      ht
      (dropped r (q * d) (q * d / 1000000000) t units)
      (below r t ht)
      hr

-- cash that stays in the lot or is booked weighs alike
same_cash :
    (pq rq cash kept booked amount bound : ℕ) →
    kept + booked ≡ amount →
    2 * distance pq (rq + amount * 1000000) < bound →
    2 * distance (pq + cash * 1000000) (rq + (cash + kept + booked) * 1000000) < bound
same_cash pq rq cash kept booked amount bound e h = omega arith

-- what it means to have a reference price
priced :
    (p c d : ℕ) →
    first (reference_refusals p c d) ≡ 0 →
    (c ≤ p * 10000) × (1 ≤ d) × (1 ≤ reference p c d)
priced p c d h = grind (arith, nat_tests)

pub worth_kept : (a : Answers) → Law a → (e : Event) (t : Terms) → WorthKept e t (adjusted a e t)
worth_kept a law e t price h =
    let has = priced price e.cash e.ratio h in
    same_cash (price * t.units) (reference price e.cash e.ratio * next_units e t.units) t.cash
    (a.kept (cash_amount e t.units)) (a.booked (cash_amount e t.units)) (cash_amount e t.units)
    (rounding_bound (reference price e.cash e.ratio) (adjusted a e t))
    (law.parts (cash_amount e t.units))
    (near t.units price e.cash e.ratio has.0 has.1 has.2)
