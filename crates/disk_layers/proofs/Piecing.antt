-- What lies in a piece of a file lies in the file.
use Rattle.std.proofs.Common.{◌≡◌, ℕ, ◌+◌, ◌-◌, ◌≤◌, List, [], ◌++◌, length, take, drop, take-add, take_at, Result, Ok, Err, sym, ap, ◌∙◌, subst, arith}
use Rattle.std.specs.Prelude.{OnOk}
use Rattle.std.proofs.lemmas.List.{append-nil, drop-drop, drop-take, length-drop, length-take-le, take-take}
use Rattle.byte_disk.specs.Files.{bytes_at}
use Rattle.disk_layers.specs.Ahead.{IsIn, Span}

pub from_piece : (file piece : List ℕ) (from at n : ℕ) → piece ≡ bytes_at from (length piece) file → from ≤ at
    → at - from + n ≤ length piece → bytes_at (at - from) n piece ≡ bytes_at at n file
from_piece file piece from at n is low high =
    let k : ℕ = at - from in
    let back : length piece ≡ k + (length piece - k) = omega (arith, high) in
    let there : from + k ≡ at = omega (arith, low) in
    ap (λ (l : List ℕ). take n (drop k l)) is
    ∙ ap (λ (m : ℕ). take n (drop k (take m (drop from file)))) back
    ∙ ap (λ (l : List ℕ). take n l) (drop-take k (length piece - k) (drop from file))
    ∙ take-take n (length piece - k) (drop k (drop from file)) (omega (arith, high))
    ∙ ap (λ (l : List ℕ). take n l) (drop-drop k from file)
    ∙ ap (λ (m : ℕ). take n (drop m file)) there

-- bytes of a piece that were put at the front of a buffer
pub taken : (v w : Span) (skipped n at : ℕ) (shown got rest file : List ℕ) → v ≡ w → shown ≡ v.bytes → IsIn w file → v.from ≤ at
    → skipped ≡ at - v.from → skipped + n ≤ length v.bytes → got ≡ take (skipped + n - skipped) (drop skipped shown)
    → take n (got ++ rest) ≡ bytes_at at n file
taken v w skipped n at shown got rest file same shown_is lies low place high is =
    let here : IsIn v file = subst (λ (s : Span). IsIn s file) (sym same) lies in
    let size : skipped + n - skipped ≡ n = omega arith in
    let got_is : got ≡ take n (drop skipped v.bytes) = is ∙ ap (λ (k : ℕ). take k (drop skipped shown)) size
    ∙ ap (λ (l : List ℕ). take n (drop skipped l)) shown_is in
    let count : length got ≡ n = ap length got_is ∙ length-take-le n (drop skipped v.bytes) (omega (arith, high, length-drop skipped v.bytes)) in
    take_at got rest n count ∙ got_is ∙ ap (λ (k : ℕ). take n (drop k v.bytes)) place
    ∙ from_piece file v.bytes v.from at n here low (omega (arith, high, place))

-- bytes, and those behind them
pub put_together : (at k n : ℕ) (front behind file : List ℕ) → k ≤ n → front ≡ bytes_at at k file → behind ≡ bytes_at (at + k) (n - k) file
    → front ++ behind ≡ bytes_at at n file
put_together at k n front behind file le one two =
    let whole : n ≡ k + (n - k) = omega (arith, le) in
    ap (λ (l : List ℕ). l ++ behind) one ∙ ap (λ (l : List ℕ). bytes_at at k file ++ l) (two ∙ ap (λ (l : List ℕ). take (n - k) l) (sym (drop-drop k at file)))
    ∙ sym (ap (λ (m : ℕ). take m (drop at file)) whole ∙ take-add k (n - k) (drop at file))

-- bytes of a piece at the front of a buffer, and behind them others
pub read_on : {T E : Type 0} (r : Result T E) (had k n at rest_at : ℕ) (buf more post file : List ℕ) → had ≤ n → post ≡ []
    → take had buf ≡ bytes_at at had file → k ≡ n - had → rest_at ≡ at + had → OnOk r (more ≡ bytes_at rest_at k file)
    → OnOk r (take had buf ++ (more ++ post) ≡ bytes_at at n file)
read_on (Ok x) had k n at rest_at buf more post file le none front count place is =
    ap (λ (l : List ℕ). take had buf ++ (more ++ l)) none ∙ ap (λ (l : List ℕ). take had buf ++ l) (append-nil more)
    ∙ put_together at had n (take had buf) more file le front
    (is ∙ ap (λ (m : ℕ). bytes_at m k file) place ∙ ap (λ (m : ℕ). bytes_at (at + had) m file) count)
read_on (Err e) had k n at rest_at buf more post file le none front count place is = tt
