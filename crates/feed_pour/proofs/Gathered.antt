-- What a pour with a buffer took stays, however much of the buffer is written.
use Rattle.std.proofs.Common.{◌≡◌, ℕ, ◌+◌, ◌-◌, List, ◌++◌, length, take, drop, Option, Some, None, sym, ap, ◌∙◌, arith, length-drop, subst, append_assoc}
use Rattle.std.proofs.lemmas.List.{take_all, take-append-drop, drop-drop}
use Rattle.std.specs.Io.KnownBytes.{Keeps, Appends, append_known}

front_kept : (x y buffer piece : List ℕ) (w n : ℕ) → piece ≡ drop w buffer → y ≡ x ++ take n piece → y ++ drop (w + n) buffer ≡ x ++ drop w buffer
front_kept x y buffer piece w n is e =
    ap (λ (l : List ℕ). l ++ drop (w + n) buffer) e
    ∙ append_assoc x (take n piece) (drop (w + n) buffer)
    ∙ ap (λ (l : List ℕ). x ++ (take n l ++ drop (w + n) buffer)) is
    ∙ ap (λ (l : List ℕ). x ++ (take n (drop w buffer) ++ l)) (sym (drop-drop n w buffer))
    ∙ ap (λ (l : List ℕ). x ++ l) (take-append-drop n (drop w buffer))

kept : (a b : Option (List ℕ)) (buffer piece : List ℕ) (w n : ℕ) → piece ≡ drop w buffer → Appends a b (take n piece) →
    Keeps (append_known a (drop w buffer)) (append_known b (drop (w + n) buffer))
kept None b buffer piece w n is more = tt
kept (Some x) None buffer piece w n is more = absurd more
kept (Some x) (Some y) buffer piece w n is more = front_kept x y buffer piece w n is more

pub kept_behind : (a b : Option (List ℕ)) (now : Option (List ℕ)) (buffer whole : List ℕ) (w n : ℕ) → whole ≡ buffer →
    Appends a b (take n (take (length whole - w) (drop w whole))) →
    now ≡ append_known b (drop (w + n) buffer) → Keeps (append_known a (drop w buffer)) now
kept_behind a b now buffer whole w n same more e =
    let rest : take (length whole - w) (drop w whole) ≡ drop w whole = take_all (length whole - w) (drop w whole) (let h = length-drop w whole in omega (arith, h)) in
    subst (λ (o : Option (List ℕ)). Keeps (append_known a (drop w buffer)) o) (sym e)
    (kept a b buffer (take (length whole - w) (drop w whole)) w n (rest ∙ ap (drop w) same) more)
