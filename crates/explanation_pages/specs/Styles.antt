-- How a page looks: its style sheet (CSS). Where the system is dark it is, on paper and on a telephone it has room, and no
-- colour says what no word or sign says.
use Rattle.std.specs.Prelude.{ℕ, List, ◌++◌, codes}
use Rattle.explanation_pages.specs.Joined.{two, four, five, seven}

-- how the colours, light and dark look
unfoldable pub colours_style : List ℕ
colours_style =
    four
    (codes ":root{color-scheme:light dark;--ink:#1c1c21;--paper:#fff;--soft:#f3f3f6;--edge:#d5d5dc;--dim:#5f5f6b;\n")
    (codes "--bad:#a8201a;--open:#7a4f00;--good:#1b6430;--link:#0b4fc0;--mark:#fff3c4}\n")
    (codes "@media (prefers-color-scheme:dark){:root{--ink:#e8e8ec;--paper:#17171b;--soft:#222228;--edge:#3c3c46;--dim:#a2a2ae;\n")
    (codes "--bad:#ff9a91;--open:#f0b95a;--good:#84d79a;--link:#93bbff;--mark:#4a3d10}}\n")

-- how the page look
unfoldable pub page_style : List ℕ
page_style =
    four
    (codes "body{margin:0 auto;max-width:76rem;padding:1rem;font:1rem/1.5 system-ui,sans-serif;color:var(--ink);background:var(--paper)}\n")
    (codes "h1{font-size:1.5rem;overflow-wrap:anywhere}h2{font-size:1.25rem;margin:0}a{color:var(--link)}p{margin:.5rem 0}\n")
    (codes "section{margin:2rem 0;padding-top:1rem;border-top:2px solid var(--edge)}footer{border-top:2px solid var(--edge)}\n")
    (codes ".failing{color:var(--bad)}.undecided{color:var(--open)}.well{color:var(--good)}\n")

-- how groups and their texts look
unfoldable pub groups_style : List ℕ
groups_style =
    seven
    (codes "details{margin:.75rem 0;padding:.5rem .75rem;border:1px solid var(--edge);border-left:.3rem solid;border-radius:.3rem}\n")
    (codes "details.script{border-left-color:var(--edge);padding:.5rem 0 0}details.script>summary{padding:0 .75rem .5rem}\n")
    (codes "summary{cursor:pointer;font-weight:600;overflow-wrap:anywhere}details>p,details>ul,details>pre{color:var(--ink)}\n")
    (codes "details a{overflow-wrap:anywhere;scroll-margin-top:5rem}\n")
    (codes "pre,td:last-child,code{font-family:ui-monospace,monospace;font-size:.875rem;white-space:pre-wrap;overflow-wrap:anywhere;tab-size:4}\n")
    (codes "pre{margin:.5rem 0;padding:.75rem;background:var(--soft);border-radius:.3rem}\n")
    (codes ".made{color:var(--good)}.taken{color:var(--bad)}.changed{color:var(--open)}.decides{font-weight:700}\n")

-- how scripts look
unfoldable pub tables_style : List ℕ
tables_style =
    five
    (codes "table{border-collapse:collapse;width:100%;font-size:.9rem}caption{text-align:left;padding:0 .75rem;color:var(--dim)}\n")
    (codes "th,td{padding:.1rem .5rem;text-align:left;vertical-align:top}thead th{border-bottom:1px solid var(--edge);font-size:.8rem}\n")
    (codes "tbody th,td:nth-child(2){text-align:right;font-weight:400;color:var(--dim);font-variant-numeric:tabular-nums}\n")
    (codes ".acts td:nth-child(2){color:var(--ink);font-weight:700}.acts{background:var(--soft)}.left{color:var(--dim)}td a{white-space:nowrap}\n")
    (codes "td:last-child{width:100%}tr:target,a:target{background:var(--mark)}\n")

-- how narrow windows and paper look
unfoldable pub media_style : List ℕ
media_style =
    two
    (codes "@media (max-width:40rem){body{padding:.5rem}th,td{padding:.1rem .25rem}caption{padding:0 .25rem}}\n")
    (codes "@media print{body{max-width:none;padding:0;font-size:.8rem}details{break-inside:auto}tr{break-inside:avoid}}\n")

-- all of it
unfoldable pub style : List ℕ
style = colours_style ++ page_style ++ groups_style ++ tables_style ++ media_style
