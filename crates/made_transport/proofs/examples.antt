mod MadeRows
